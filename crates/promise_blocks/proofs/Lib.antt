pub mod PaidCases

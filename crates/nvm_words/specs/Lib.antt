pub mod Fields
pub mod Grammar
pub mod Pair
pub mod PairCases
pub mod Words

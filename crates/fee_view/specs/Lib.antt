pub mod Record
pub mod View

pub mod Stores
pub mod Ends
pub mod Exchange

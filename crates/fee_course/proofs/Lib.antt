pub mod Appends
pub mod Turns
pub mod Walks

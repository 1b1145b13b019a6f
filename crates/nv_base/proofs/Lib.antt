mod Placed
mod Runs
mod Steps
pub mod Lists
pub mod Numerals
pub mod Places
pub mod Shapes

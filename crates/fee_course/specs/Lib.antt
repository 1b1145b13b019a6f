pub mod Copies
pub mod Course
pub mod Laws

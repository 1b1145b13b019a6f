pub mod Parts
pub mod Readings
pub mod Lists
pub mod PlaceLists
pub mod Allowed
pub mod Promise

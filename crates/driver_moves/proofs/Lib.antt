pub mod Uncut
pub mod Driving

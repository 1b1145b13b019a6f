pub mod Device
pub mod Clock
pub mod Parts
pub mod Runs
pub mod Tells
pub mod Cases

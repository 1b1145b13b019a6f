pub mod Counts
pub mod Marks
pub mod Payment
pub mod OverDevice
pub mod Operations
pub mod Moves
pub mod Work
pub mod Cases

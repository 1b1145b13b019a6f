pub mod Clocks
pub mod Making
pub mod Parts
pub mod Runs
pub mod Tells
pub mod ToldBytes
pub mod Counted

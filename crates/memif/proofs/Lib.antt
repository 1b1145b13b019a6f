pub mod Plain
pub mod PlainCalls
pub mod Runs
pub mod Turning

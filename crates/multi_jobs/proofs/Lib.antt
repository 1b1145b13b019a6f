pub mod Ids
pub mod Taken
pub mod Noted
pub mod Configured
pub mod NextSteps

pub mod Texts
pub mod Walks
pub mod Runs
pub mod RunsGrow
pub mod First
pub mod Newest
pub mod Jobs
pub mod Turns
pub mod Resting
mod Looks
mod FullRuns

pub mod Changes
pub mod Counts
pub mod Follows
pub mod Holds
mod Loading
pub mod Loads
pub mod Soundness
pub mod Steps
pub mod Walking
pub mod Within

pub mod Instances
pub mod Seen

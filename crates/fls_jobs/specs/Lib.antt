pub mod CallOf
pub mod Job
pub mod Reach
pub mod Start
pub mod State
pub mod Turn

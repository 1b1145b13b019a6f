pub mod Take
pub mod Written
pub mod Job
pub mod Slots
pub mod Line
pub mod Room
pub mod Unpicked
pub mod Pending

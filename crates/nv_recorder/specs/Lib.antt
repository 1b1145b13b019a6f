pub mod Event
pub mod FoundMarks
pub mod Latest
pub mod Recorder
pub mod Request
pub mod Rooms

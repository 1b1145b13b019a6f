pub mod Guards
pub mod Heads
pub mod SoundHeads
pub mod Tests
pub mod Torn

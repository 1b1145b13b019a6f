mod Flags
pub mod Picks
pub mod Starts
pub mod Targets
pub mod Heads
pub mod Pieces

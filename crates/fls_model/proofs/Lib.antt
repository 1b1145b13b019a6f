pub mod Bits
pub mod Growth
pub mod Kept
pub mod Pieces
pub mod Replay
pub mod Within

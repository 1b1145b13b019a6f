pub mod Growth
pub mod Played

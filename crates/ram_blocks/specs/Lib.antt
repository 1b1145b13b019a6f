pub mod Copies
pub mod Kept
pub mod Places
pub mod Plain
pub mod Ram
pub mod Told
pub mod Tries

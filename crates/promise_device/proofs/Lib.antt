pub mod FlashRun
mod Parts
pub mod Readings
pub mod Closings
pub mod Wears
pub mod Places
mod Operations
mod GenerationsKept
mod GenerationErases
mod GenerationPrograms
pub mod Generations
pub mod SwitchErases

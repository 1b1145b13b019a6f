mod Splits
mod Index
mod Lines
mod Fitting
mod Agreement
pub mod Places

pub mod Lent
pub mod Flash

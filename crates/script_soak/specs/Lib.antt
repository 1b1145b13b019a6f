pub mod Draws
pub mod Rounds
pub mod Soak
pub mod Laws
pub mod Cases

pub mod Deeds
pub mod Programs
pub mod RunScripts
pub mod Counting
pub mod Laws
pub mod Cases

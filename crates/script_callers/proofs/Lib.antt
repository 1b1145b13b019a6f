pub mod Growing
pub mod Counting
pub mod Owning
pub mod Making
pub mod RunScripts
pub mod Apart

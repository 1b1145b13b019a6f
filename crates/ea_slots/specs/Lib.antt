pub mod Origin
pub mod Starts
pub mod Calls
pub mod Shown
pub mod Jobs
pub mod Whole
pub use Rattle.ea_told.specs as ea_told

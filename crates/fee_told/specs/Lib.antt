pub mod SlotLaws
pub mod Slots
pub mod Device
pub mod Attached
pub mod Programs
pub mod Figures
pub mod Turns
pub mod FigureLaws
pub mod Appends
pub mod Jobs
pub mod Kept
pub mod Switches
pub mod Whole
pub use Rattle.fls_told.specs as fls_told

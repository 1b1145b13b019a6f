pub mod Making
pub mod Reading
pub mod States
pub mod Parts
pub mod Device
pub mod Inside
pub mod Turn
pub mod Laws
pub mod Calls
pub mod Start
pub mod Made
pub use Rattle.fls_told.specs as fls_told

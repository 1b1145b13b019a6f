pub mod Driven
pub mod Kept
pub mod Added
pub mod Looked
pub mod TakenCopies
pub mod Waits
pub mod Deeds
pub mod Order
pub mod Shares
pub mod Joins
pub mod Stored
pub mod Shown
pub mod Placed
pub mod Calls
pub mod Stores
pub mod Endings
pub mod Callers
pub mod Steering
pub mod KeptSteps
pub mod Begun
pub mod Dealt
pub mod Ran
pub use Rattle.driver_moves.specs.nvm_moves as nvm_moves
pub use Rattle.driver_moves.specs as driver_moves
pub use Rattle.script_callers.specs as script_callers

mod Common
mod Refusing
pub mod Moved
mod Turning
pub mod Following
pub mod Keeping
pub mod Adding
pub mod Looking
pub mod TakenCopies
pub mod Showing
pub mod Waiting
pub mod Overs
pub mod Doing
pub mod Ordering
pub mod Sharing
pub mod JoinedPasses
pub mod Storing
pub mod Shown
pub mod StoresShown
mod Making
mod Driving
mod Working
mod Passing
mod Rounds
pub mod KeptSteps
mod Beginning
mod Finishing
mod Closing
mod Moving
mod DealtSides
mod StoresTaken
mod Owned
pub use Rattle.script_callers.proofs.RunScripts as RunScripts

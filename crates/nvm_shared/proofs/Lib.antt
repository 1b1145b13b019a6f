mod Writing
mod Leaving
mod Asking
mod Turning
mod Halves
pub mod Making
mod Learning
mod Serving
mod Seeing
mod PicksShown
mod Resting
mod Counting
pub mod WritingLegal
pub mod Standing
pub mod Opened
pub mod WordsTold
mod EntryStatuses
pub mod Words
pub mod Numbering
mod Power
pub mod Posting
pub mod Unplanned

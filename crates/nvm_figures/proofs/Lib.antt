pub mod Tries
pub mod Programs
pub mod Figures
pub mod DrainWork
pub mod OnTime
pub mod JobTurns
pub mod FinishedJobs
pub mod TurnsCounted

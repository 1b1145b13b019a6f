mod Common
pub mod Along
pub mod Consequences
pub mod TurnEntries
mod Counts
mod AskedBlocks
pub mod Served
mod DueAsked
mod DeviceServed
mod TurnServed
mod Servable
mod DeviceDue
pub mod DeviceWorks
mod WorkedMoves
pub mod Moved
mod Canceled
pub mod Most
pub mod InAll
pub mod Halves
pub mod Posted
pub mod StackMoves
pub mod Beginning
pub use Rattle.nvm_core.proofs.Paying as Paying
pub use Rattle.nvm_core.proofs.TurnedBehind as TurnedBehind
pub use Rattle.nvm_core.proofs.block_laws.HistoryLaws as HistoryLaws
pub use Rattle.nvm_core.proofs.block_laws.NextLaws as NextLaws
pub use Rattle.nvm_core.proofs.JobPowering as Powering
pub use Rattle.nvm_core.proofs.Turning as Turning
pub use Rattle.nvm_core.proofs.Sizes as Sizes
pub use Rattle.nvm_core.proofs.Keeping as Keeping
pub use Rattle.nvm_core.proofs.DeviceWork as DeviceWork
pub use Rattle.nvm_core.proofs.TurnWork as TurnWork
pub use Rattle.nvm_core.proofs.block_laws.Along as HistoryAlong
pub use Rattle.nvm_core.proofs.block_laws.BlockFields as BlockFields
pub use Rattle.nvm_core.proofs.block_laws.WholeContents as WholeContents
pub use Rattle.nvm_core.proofs.block_laws.WholeSteps as WholeSteps
pub use Rattle.nvm_core.proofs.FreshCopies as FreshCopies
pub use Rattle.promise_run.proofs.FirstStores as FirstStores
pub use Rattle.promise_run.proofs.WalkedJobs as WalkedJobs
pub use Rattle.promise_run.proofs.NewestStores as NewestStores
pub use Rattle.promise_run.proofs.Resting as Resting
pub use Rattle.promise_run.proofs.WalkedTurns as WalkedTurns
pub use Rattle.promise_run.proofs.Walks as Walks
pub use Rattle.promise_run.proofs.Counted as Counted
pub use Rattle.promise_run.proofs.Paid as Paid
pub use Rattle.promise_run.proofs.PlannedCuts as PlannedCuts
pub use Rattle.promise_run.proofs.Power as Power
pub use Rattle.promise_run.proofs.StartUps as StartUps
pub use Rattle.promise_run.proofs.TakenPages as TakenPages
pub use Rattle.promise_run.proofs.UrgentPosts as UrgentPosts
pub use Rattle.promise_run.proofs.WorkedMoves as WorkedBy

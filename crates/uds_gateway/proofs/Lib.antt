pub mod Jobs
pub mod JobTurns
pub mod Pieces
pub mod Served
pub mod Deciding
pub mod Codes
pub mod Causes
pub use Rattle.nvm_moves.proofs.HistoryAlong as Along
pub use Rattle.nvm_moves.proofs.HistoryLaws as HistoryLaws
pub use Rattle.nvm_moves.proofs.NextLaws as NextLaws
pub use Rattle.nvm_moves.proofs.WholeContents as WholeContents
pub use Rattle.nvm_moves.proofs.WholeSteps as WholeSteps
pub use Rattle.nvm_moves.proofs.Turning as Turning
pub use Rattle.nvm_moves.proofs.FreshCopies as FreshCopies
pub use Rattle.nvm_moves.proofs.DeviceWork as DeviceWork
pub use Rattle.nvm_moves.proofs.TurnWork as TurnWork
pub use Rattle.nvm_moves.proofs.Beginning as Beginning
pub use Rattle.nvm_moves.proofs.Halves as Halves
pub use Rattle.nvm_moves.proofs.Most as Most
pub use Rattle.nvm_moves.proofs.Along as MovesAlong
pub use Rattle.nvm_moves.proofs.Moved as Moved
pub use Rattle.nvm_moves.proofs.Resting as Resting
pub use Rattle.nvm_moves.proofs.StackMoves as StackMoves
pub use Rattle.nvm_moves.proofs.FirstStores as FirstStores
pub use Rattle.nvm_moves.proofs.WalkedJobs as WalkedJobs
pub use Rattle.nvm_moves.proofs.NewestStores as NewestStores
pub use Rattle.nvm_moves.proofs.WalkedTurns as WalkedTurns
pub use Rattle.nvm_moves.proofs.Walks as Walks
pub use Rattle.nvm_moves.proofs.Counted as Counted
pub use Rattle.nvm_moves.proofs.Paid as Paid
pub use Rattle.nvm_moves.proofs.PlannedCuts as PlannedCuts
pub use Rattle.nvm_moves.proofs.Power as Power
pub use Rattle.nvm_moves.proofs.StartUps as StartUps
pub use Rattle.nvm_moves.proofs.TakenPages as TakenPages
pub use Rattle.nvm_moves.proofs.UrgentPosts as UrgentPosts
pub use Rattle.nvm_moves.proofs.WorkedBy as WorkedBy

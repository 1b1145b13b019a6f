pub mod Returning
pub mod Space
pub mod PairNumbers
pub mod PairReturning
pub mod PairClock
pub mod PairStart
pub mod JobTurns
pub mod Costs
mod OwnNumbers
pub mod PairFigures
pub mod CutterRuns
pub mod CutterSeen
pub mod CutterUnmade
pub mod FirstStart
pub use Rattle.nvm_core.proofs.Called as Called
pub use Rattle.memif_fee_ea.proofs.Readings as Readings
pub use Rattle.promise_run.proofs.Composition as Composition
pub use Rattle.memif_fee_ea.proofs.Turning as Turning
pub use Rattle.nvm_core.proofs.DownCalls as DownCalls
pub use Rattle.promise_run.proofs.DeviceTurns as DeviceTurns
pub use Rattle.nvm_core.proofs.DeviceWork as DeviceWork
pub use Rattle.nvm_core.proofs.StartWork as StartWork
pub use Rattle.nvm_core.proofs.Trying as Trying
pub use Rattle.nvm_core.proofs.TurnWork as TurnWork
pub use Rattle.nvm_core.proofs.LawStanding as LawStanding
pub use Rattle.promise_run.proofs.Callers as Callers
pub use Rattle.memif_fee_ea.proofs.Soundness as Soundness
pub use Rattle.promise_run.proofs.InRoom as InRoom
pub use Rattle.promise_run.proofs.Texts as Texts
pub use Rattle.promise_run.proofs.BankTurns as BankTurns
pub use Rattle.promise_run.proofs.CalmPosts as CalmPosts
pub use Rattle.promise_run.proofs.Counted as Counted
pub use Rattle.promise_run.proofs.RunHalves as RunHalves

pub mod Appends
pub mod Begins
pub mod Copies
pub mod Flags
pub mod Gates
pub mod Settles
pub mod Started
pub mod Targets
pub mod Turns
pub mod FlagChoices
pub mod FlagTurns
pub mod RoomAppends
mod RoomNext
pub mod RoomPages
pub mod RoomReady
pub mod RoomSteps
pub use Rattle.fee_log.proofs.Changes as Changes
pub use Rattle.fee_log.proofs.Follows as Follows
pub use Rattle.fee_log.proofs.Holds as Holds
pub use Rattle.fee_log.proofs.Soundness as Soundness
pub use Rattle.fee_log.proofs.Steps as Steps
pub use Rattle.fee_log.proofs.Walking as Walking
pub use Rattle.fee_log.proofs.Within as Within
pub use Rattle.fee_switch.proofs.Targets as SwitchTargets

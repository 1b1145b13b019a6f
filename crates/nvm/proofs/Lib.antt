pub mod StepMoves
pub mod UnitMoves
pub mod UnitTurns
pub mod Closing
pub mod Plans
pub mod UnitLaws
pub use Rattle.nvm_flash.proofs.Returning as Returning
pub use Rattle.nvm_flash.proofs.Called as Called

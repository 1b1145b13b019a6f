mod Apart
mod Paired
pub use Rattle.fee_core.proofs.FlashRun as FlashRun
pub use Rattle.fee_core.proofs.Readings as Readings
pub use Rattle.fee_core.proofs.Soundness as Soundness
pub use Rattle.fee_core.proofs.Turning as Turning
pub use Rattle.memif_pair.proofs.Courses as Courses

mod Appending
mod Begun
mod Canceling
mod Copying
mod Leaving
mod Looking
mod MarkPlaces
mod Opening
mod Planning
mod Reading
mod RoomTold
mod WearTold
mod Settled
mod Standing
mod Started
mod Stepping
mod Telling
pub use Rattle.promise_device.proofs.Readings as Readings
pub use Rattle.memif.proofs.Turning as Turning
pub use Rattle.fee_image.proofs.Soundness as Soundness
pub use Rattle.promise_device.proofs.FlashRun as FlashRun

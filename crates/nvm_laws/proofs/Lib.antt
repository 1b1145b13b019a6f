mod Numbers
pub mod Operations
pub mod Refusing
pub mod Keeping
mod Telling
pub mod Numbered
pub mod Picking
pub mod Paying
pub mod Posting
pub mod Starting
pub mod Staying
pub mod StartingUp
mod Seeing
mod Ending
pub mod Ordering
pub mod Turning
pub mod Asking
pub mod Working
pub mod DueOrder
pub mod DueBlocks
pub mod DueAsking
pub mod DueInterrupting
pub mod DueTurning
pub mod DueHalves
pub mod DueCalling
pub mod Traits
pub mod Standing
pub use Rattle.nvm_device_laws.proofs.Called as Called
pub use Rattle.nvm_device_laws.proofs.DownCalls as DownCalls
pub use Rattle.job_progress.proofs.Asking as JobAsking
pub use Rattle.job_progress.proofs.AtOperation as AtOperation
pub use Rattle.job_progress.proofs.Powering as Powering
pub use Rattle.nv_desk_copies.proofs.Sizes as Sizes
pub use Rattle.ram_blocks.proofs.FreshCopies as FreshCopies
pub use Rattle.nv_desk_copies.proofs.Taking as Taking
pub use Rattle.nvm_device_laws.proofs.Cutting as Cutting
pub use Rattle.block_machine.proofs.block_config.Devices as Devices
pub use Rattle.block_machine.proofs.block_config.Numbering as Numbering
pub use Rattle.job_progress.proofs.Going as Going
pub use Rattle.job_progress.proofs.Writing as Writing
pub use Rattle.job_progress.proofs.Fitting as Fitting
pub use Rattle.nvm_device_laws.proofs.PaidTries as PaidTries
pub use Rattle.job_programs.proofs.Outcomes as Outcomes
pub use Rattle.nvm_device_laws.proofs.DeviceTries as DeviceTries
pub use Rattle.job_progress.proofs.Beginning as Beginning

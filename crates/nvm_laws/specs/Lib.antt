pub mod Ties
pub mod Halves
pub mod Turns
pub mod Keeps
pub mod Entries
pub mod Calls
pub mod StartUps
pub mod Numbered
pub mod Work
pub mod Due
pub mod AtDevice
pub mod DueLaws
pub mod DueCalls
pub mod DueCases
pub mod Traits
pub mod Standing
pub use Rattle.block_machine.specs.nv_base as nv_base
pub use Rattle.memif.specs as memif
pub use Rattle.block_machine.specs.block_config as block_config
pub use Rattle.block_machine.specs as block_machine
pub use Rattle.block_laws.specs as block_laws
pub use Rattle.ram_blocks.specs as ram_blocks
pub use Rattle.job_programs.specs as job_programs
pub use Rattle.nv_desk_copies.specs.nv_desk as nv_desk
pub use Rattle.nv_desk_copies.specs as nv_desk_copies
pub use Rattle.promise_blocks.specs as promise_blocks
pub use Rattle.nvm_device_laws.specs as nvm_device_laws
pub use Rattle.job_progress.specs as job_progress
pub use Rattle.nvm_figures.specs as nvm_figures

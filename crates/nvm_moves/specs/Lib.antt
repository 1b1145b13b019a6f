pub mod Along
pub mod Seen
pub mod Served
pub mod Worked
pub mod Moved
pub mod Beginning
pub use Rattle.nvm_core.specs.nv_base as nv_base
pub use Rattle.nvm_core.specs.memif as memif
pub use Rattle.nvm_core.specs.block_config as block_config
pub use Rattle.nvm_core.specs.block_machine as block_machine
pub use Rattle.nvm_core.specs.block_laws as block_laws
pub use Rattle.nvm_core.specs.ram_blocks as ram_blocks
pub use Rattle.nvm_core.specs.nv_desk as nv_desk
pub use Rattle.nvm_core.specs.nv_desk_copies as nv_desk_copies
pub use Rattle.nvm_core.specs.nvm_device_laws as nvm_device_laws
pub use Rattle.nvm_core.specs.job_programs as job_programs
pub use Rattle.nvm_core.specs.job_progress as job_progress
pub use Rattle.nvm_core.specs.nvm_laws as nvm_laws
pub use Rattle.nvm_core.specs.promise_blocks as promise_blocks
pub use Rattle.nvm_core.specs.nvm_figures as nvm_figures
pub use Rattle.nvm_core.specs.nvm_found as nvm_found
pub use Rattle.nvm_core.specs as nvm_core
pub use Rattle.promise_run.specs.script_walks as script_walks
pub use Rattle.promise_run.specs as promise_run

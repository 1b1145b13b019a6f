pub mod Services
pub mod Answers
pub mod Jobs
pub mod Turning
pub mod StackCalls
pub mod Serving
pub mod Served
pub mod Codes
pub mod Causes
pub mod Cases
pub use Rattle.nvm_moves.specs.nv_base as nv_base
pub use Rattle.nvm_moves.specs.memif as memif
pub use Rattle.nvm_moves.specs.block_config as block_config
pub use Rattle.nvm_moves.specs.block_machine as block_machine
pub use Rattle.nvm_moves.specs.block_laws as block_laws
pub use Rattle.nvm_moves.specs.ram_blocks as ram_blocks
pub use Rattle.nvm_moves.specs.job_programs as job_programs
pub use Rattle.nvm_moves.specs.nv_desk as nv_desk
pub use Rattle.nvm_moves.specs.nv_desk_copies as nv_desk_copies
pub use Rattle.nvm_moves.specs.promise_blocks as promise_blocks
pub use Rattle.nvm_moves.specs.nvm_device_laws as nvm_device_laws
pub use Rattle.nvm_moves.specs.job_progress as job_progress
pub use Rattle.nvm_moves.specs.nvm_figures as nvm_figures
pub use Rattle.nvm_moves.specs.nvm_found as nvm_found
pub use Rattle.nvm_moves.specs.nvm_laws as nvm_laws
pub use Rattle.nvm_moves.specs.nvm_core as nvm_core
pub use Rattle.nvm_moves.specs.script_walks as script_walks
pub use Rattle.nvm_moves.specs.promise_run as promise_run
pub use Rattle.nvm_moves.specs as nvm_moves

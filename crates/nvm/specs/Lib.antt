pub mod Steps
pub mod Closing
pub mod Turned
pub mod Unit
pub use Rattle.nvm_flash.specs.nv_base as nv_base
pub use Rattle.nvm_flash.specs.fls_model as fls_model
pub use Rattle.nvm_flash.specs.fls_devices as fls_devices
pub use Rattle.fls_files.specs as fls_files
pub use Rattle.nvm_flash.specs.memif as memif
pub use Rattle.nvm_flash.specs.block_config as block_config
pub use Rattle.nvm_flash.specs.block_machine as block_machine
pub use Rattle.nvm_flash.specs.ram_blocks as ram_blocks
pub use Rattle.nvm_flash.specs.nv_desk as nv_desk
pub use Rattle.nvm_flash.specs.nvm_core as nvm_core
pub use Rattle.nvm_flash.specs as nvm_flash
pub use Rattle.nvm_moves.specs as nvm_moves

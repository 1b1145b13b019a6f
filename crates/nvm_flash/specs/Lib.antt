pub mod Made
pub mod PairMaking
pub mod PairMade
pub mod PairClock
pub mod PairStart
pub mod PairFigures
pub mod Sized
pub mod Turns
pub mod Costs
pub mod CutterLaws
pub mod CutterUnmade
pub use Rattle.memif_fee_ea.specs.fee_core.nv_base as nv_base
pub use Rattle.memif_fee_ea.specs.fee_core.fls_model as fls_model
pub use Rattle.fls_devices.specs as fls_devices
pub use Rattle.memif_fee_ea.specs.fee_core.memif as memif
pub use Rattle.nvm_core.specs.block_config as block_config
pub use Rattle.nvm_core.specs.block_machine as block_machine
pub use Rattle.nvm_core.specs.ram_blocks as ram_blocks
pub use Rattle.nvm_core.specs.nv_desk as nv_desk
pub use Rattle.nvm_core.specs.promise_blocks as promise_blocks
pub use Rattle.nvm_core.specs.nvm_device_laws as nvm_device_laws
pub use Rattle.nvm_core.specs.job_progress as job_progress
pub use Rattle.nvm_core.specs.nvm_figures as nvm_figures
pub use Rattle.nvm_core.specs.nvm_laws as nvm_laws
pub use Rattle.nvm_core.specs as nvm_core
pub use Rattle.memif_fee_ea.specs.fee_core.fee_image as fee_image
pub use Rattle.memif_fee_ea.specs.fee_core.promise_device as promise_device
pub use Rattle.memif_fee_ea.specs.fee_core.fls_told as fls_told
pub use Rattle.memif_fee_ea.specs.fee_core.fee_told as fee_told
pub use Rattle.memif_fee_ea.specs.fee_core.fee_laws as fee_laws
pub use Rattle.memif_fee_ea.specs.fee_core as fee_core
pub use Rattle.memif_fee_ea.specs as memif_fee_ea
pub use Rattle.promise_run.specs as promise_run

pub mod Words
pub mod State
pub mod Blocks
pub mod Sweeps
pub mod Reply
pub mod Next
pub mod Results
pub mod StartUp
pub mod Steps
pub mod Legal
pub mod History
pub mod Prices
pub mod Order
pub mod ResultTable
pub mod Accepted
pub mod Cases
pub use Rattle.nv_base.specs as nv_base
pub use Rattle.block_config.specs as block_config

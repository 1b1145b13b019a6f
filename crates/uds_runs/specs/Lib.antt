pub mod Causes
pub mod Given
pub use Rattle.uds_gateway.specs as uds_gateway

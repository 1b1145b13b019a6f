pub mod Told
pub mod Coming
pub mod Calls
pub mod Table
pub mod Kept
pub mod Made
pub mod Walking
pub mod Requests
pub mod Paying
pub mod PlainTold
pub mod PlainKept
pub mod PlainPaying
pub use Rattle.uds_gateway.specs.ram_blocks as ram_blocks
pub use Rattle.uds_gateway.specs as uds_gateway
pub use Rattle.uds_gateway.specs.script_walks as script_walks

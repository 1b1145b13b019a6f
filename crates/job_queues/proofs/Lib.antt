pub mod InOrder
pub mod Turned
pub mod Order
pub mod Taken

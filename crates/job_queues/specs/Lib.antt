pub mod InOrder
pub mod Jobs
pub mod Laws
pub mod Order

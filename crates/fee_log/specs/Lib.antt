pub mod Index
pub mod Inside
pub mod Laws
pub mod Load
pub mod Log
pub mod Step

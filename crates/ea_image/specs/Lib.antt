pub mod SlotHead
pub mod Slots
pub mod Steps
pub mod Memory
pub mod Laws
pub mod Cases

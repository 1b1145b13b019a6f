pub mod Appends
pub mod Begins
pub mod Copies
pub mod Flagged
pub mod BankBytes
pub mod Shown
pub mod Targets
pub mod Turns
pub mod Flags
pub mod FlagLaws
pub mod KeepsRoom
pub mod RoomLaws
pub mod Space
pub use Rattle.fee_log.specs as fee_log
pub use Rattle.fee_switch.specs as fee_switch

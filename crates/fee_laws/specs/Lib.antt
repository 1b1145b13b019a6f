pub mod Copied
pub mod Inside
pub mod Record
pub mod Work
pub mod Made
pub mod Parts
pub mod CallLaws
pub mod Appends
pub mod Begins
pub mod Reads
pub mod Rests
pub mod Turn
pub mod Switches
pub mod Worn
pub mod Follows
pub mod FollowLaws
pub mod SwitchTold
pub mod Wears
pub mod Restarts
pub use Rattle.fee_switch_laws.specs.fee_log as fee_log
pub use Rattle.fee_switch_laws.specs.fee_switch as fee_switch
pub use Rattle.fee_switch_laws.specs as fee_switch_laws
pub use Rattle.fee_told.specs.fls_told as fls_told
pub use Rattle.fee_told.specs as fee_told

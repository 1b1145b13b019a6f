pub mod Held
pub mod Places
pub mod Slots
pub mod Steps
pub mod Attached
pub mod Programs
pub mod Figures
pub mod Appends
pub mod Jobs
pub mod Kept
pub mod Switches
pub mod Whole
pub use Rattle.fls_told.proofs.Clocks as Clocks
pub use Rattle.fls_told.proofs.Making as Making
pub use Rattle.fls_told.proofs.Parts as Parts
pub use Rattle.fls_told.proofs.Tells as Tells
pub use Rattle.fls_told.proofs.Runs as Runs
pub use Rattle.fls_told.proofs.ToldBytes as ToldBytes
pub use Rattle.fls_told.proofs.Counted as Counted

pub mod Causes
pub mod Commands
pub mod Dump
pub mod EndCases
pub mod Ends
pub mod Flashes
pub mod Measures
pub mod Outputs
pub mod Play
pub mod Program
pub mod Reading
pub mod Runs
pub mod Promised
pub mod Running
pub mod Soak
pub mod Stack
pub mod Uds
pub mod Worked
pub use Rattle.nvm_flash.specs as nvm_flash
pub use Rattle.nvm_script.specs as nvm_script
pub use Rattle.nvm_lines.specs as nvm_lines

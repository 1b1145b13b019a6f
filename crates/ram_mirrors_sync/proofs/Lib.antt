mod Copying
pub mod Copies
mod Belonging
pub mod Coming
mod Blocks
mod Ending

pub mod Hand
pub mod JobInHand
pub mod Begins
pub mod Goes
pub mod Asks
pub mod Fits

pub mod Offers
pub mod Posting
pub mod Sizes
pub mod StagedLengths
pub mod Taking

pub mod Members
pub mod SweepEntries

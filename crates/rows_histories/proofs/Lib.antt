mod Ascending
mod Reading
pub mod Lists
pub mod Walks
pub mod Indices
pub mod Taken
pub mod Cells
pub mod Numbers
pub mod Absent
pub mod Scan
pub mod Finds

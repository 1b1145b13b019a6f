pub mod Dump
pub mod Seen

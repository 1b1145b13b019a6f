pub mod Bytes
mod Pieces

pub mod BankLines
pub mod Slices

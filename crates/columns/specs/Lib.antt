pub mod Columns
pub mod Swaps

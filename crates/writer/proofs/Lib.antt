pub mod Runs
pub mod Taken
pub mod Pairs
pub mod Parts

pub mod Taken
pub mod Room
pub mod Named

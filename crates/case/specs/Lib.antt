pub mod Faults
pub mod Held
pub mod Sound
pub mod Stores

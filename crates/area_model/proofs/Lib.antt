pub mod Frames
pub mod Stores
pub mod Survival
pub mod Refusals
pub mod Room
pub mod Claim
pub mod Worked

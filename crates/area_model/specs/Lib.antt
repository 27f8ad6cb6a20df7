pub mod Area
pub mod Changes
pub mod Claim
pub mod Worked

pub mod LogLaws
pub mod RunLaws
pub mod Cut
pub mod Kept
pub mod Counts
pub mod Claim
pub mod Worked

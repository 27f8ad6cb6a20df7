pub mod Ranges
pub mod Conditions
pub mod Commits
pub mod Followed
pub mod Effects
pub mod Room
pub mod Taken
pub mod Acknowledging

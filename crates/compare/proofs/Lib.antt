pub mod Slices
pub mod Decisions
pub mod Groups
pub mod Agree
pub mod FirstPair
pub mod Threads

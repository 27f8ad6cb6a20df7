pub mod Counts
pub mod Answers

pub mod Verdict
pub mod Finals
pub mod Models
pub mod Broken

pub mod Sets
pub mod Events
pub mod Entries
pub mod Stores
pub mod Means
pub mod Back
pub mod Next
pub mod Start

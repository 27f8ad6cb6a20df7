pub mod Appended
pub mod Entries
pub mod Turns

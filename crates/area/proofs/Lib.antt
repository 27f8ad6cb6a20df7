pub mod Told
pub mod Framing
pub mod Storing
pub mod Appending
pub mod Clearing

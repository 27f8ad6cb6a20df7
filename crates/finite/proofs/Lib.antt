pub mod Tests
pub mod Lists
pub mod Loops
pub mod All

pub mod Order
pub mod Representative
pub mod Search
pub mod Kept
pub mod Worked

pub mod Order
pub mod Representative
pub mod Decide
pub mod Search
pub mod Kept
pub mod Worked

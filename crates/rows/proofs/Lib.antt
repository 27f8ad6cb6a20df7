pub mod Loops
pub mod SetLaws
pub mod AsRules
pub mod Each
pub mod Ranges

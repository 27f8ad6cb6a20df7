pub mod Means
pub mod Models
pub mod Same
pub mod Last

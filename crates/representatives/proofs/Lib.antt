pub mod Chosen
pub mod Represented

pub mod Bit
pub mod Members

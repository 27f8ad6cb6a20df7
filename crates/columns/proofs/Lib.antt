pub mod Digits
pub mod Masks
pub mod Shifts
pub mod Exchange
pub mod Turns

pub mod Decided
pub mod Alone

pub mod Stages
pub mod Sinks
pub mod SinksKeep
pub mod Stored

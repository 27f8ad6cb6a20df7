pub mod FirstField
pub mod Alone
pub mod Search
pub mod Represented

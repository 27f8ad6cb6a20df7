pub mod Bits
pub mod Count
pub mod Lowest

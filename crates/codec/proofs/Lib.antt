pub mod ReadsAs
pub mod Exact
pub mod AsLong
pub mod Extent
pub mod Steady
pub mod Few

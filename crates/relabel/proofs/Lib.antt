pub mod Fill
pub mod Steps
pub mod Rows
pub mod Parts
pub mod Whole

pub mod Calls
pub mod Locals
pub mod Loops
pub mod Bytes

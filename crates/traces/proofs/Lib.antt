pub mod ByKind
pub mod Ends
pub mod Turns
pub mod Judged

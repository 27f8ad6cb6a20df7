pub mod Covers
pub mod Alike
pub mod FinalParts

pub mod Log
pub mod Pieces
pub mod Claim
pub mod Worked

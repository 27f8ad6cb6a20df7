pub mod Judging
pub mod Going
pub mod Answering
pub mod Parting

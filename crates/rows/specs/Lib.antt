pub mod Sets
pub mod May

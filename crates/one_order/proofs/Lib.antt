pub mod Disjoint
pub mod Covers
pub mod Joins
pub mod AlikeOrders
pub mod FinalParts

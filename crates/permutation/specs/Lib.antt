pub mod Permutation

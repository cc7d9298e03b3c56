pub mod Permutations
mod Behind
pub mod Sheet

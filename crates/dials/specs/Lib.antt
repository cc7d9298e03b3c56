pub mod Dials
pub mod Highest
pub mod Rounds

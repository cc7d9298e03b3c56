pub mod Dials
pub mod Past

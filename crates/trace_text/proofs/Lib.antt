mod Lines
pub mod Whole
mod Cases

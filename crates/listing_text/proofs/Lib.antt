mod Lines
pub mod Told
pub mod Whole
pub mod Cases

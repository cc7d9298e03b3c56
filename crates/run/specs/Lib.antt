pub mod Run
pub mod Limits

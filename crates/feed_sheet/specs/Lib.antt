pub mod Limits
pub mod Sheet

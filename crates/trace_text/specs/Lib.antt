pub mod Lines
pub mod Trace

pub mod Widths
pub mod Wiring
pub mod Rows

pub mod Arrays
pub mod Feeds
pub mod Widths
pub mod Parts
pub mod Once
pub mod Rows

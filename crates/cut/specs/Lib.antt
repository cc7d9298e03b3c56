pub mod Starts
pub mod Cut

mod Starts
pub mod Cut

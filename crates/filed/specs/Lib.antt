pub mod Calls
pub mod Filed

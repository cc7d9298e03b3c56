pub mod Keeps
pub mod Calls

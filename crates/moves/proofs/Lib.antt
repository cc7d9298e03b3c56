pub mod Refusals
pub mod Keeps
pub mod Seen

pub mod Gaps
pub mod Missing
mod Counts
pub mod Call

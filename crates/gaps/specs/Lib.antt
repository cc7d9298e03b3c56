pub mod Gaps
pub mod Missing
pub mod Counts

pub mod History
pub mod Promise
pub mod Own
pub mod Trace
pub mod Further

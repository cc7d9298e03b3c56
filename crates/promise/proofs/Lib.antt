pub mod Core
pub mod Book
pub mod Kept
pub mod Record
pub mod Boards
pub mod Pace
pub mod Builds
pub mod Reached
pub mod Promise
pub mod Own
pub mod Trace
pub mod Further
mod Cases

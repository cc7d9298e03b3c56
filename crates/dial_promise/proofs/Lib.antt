pub mod Log
pub mod Dials
pub mod Alone
pub mod Highest
pub mod Promise
mod Cases

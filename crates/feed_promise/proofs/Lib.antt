pub mod Feeds
pub mod Promise
pub mod Cases

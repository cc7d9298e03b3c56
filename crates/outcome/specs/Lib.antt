pub mod Outcome
pub mod Course
pub mod Step
pub mod Schedule
pub mod Whole
pub mod Room
pub mod Case

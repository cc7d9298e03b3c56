mod Calls
mod Reports
mod Course
pub mod Filed

pub mod Phases
pub mod Reports
pub mod Serving
pub mod Pass

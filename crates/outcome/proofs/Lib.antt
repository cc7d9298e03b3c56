pub mod Ready
pub mod Reports
mod Faults
pub mod Told
pub mod Room
pub mod Cases

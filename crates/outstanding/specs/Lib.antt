pub mod Outstanding
pub mod Cases

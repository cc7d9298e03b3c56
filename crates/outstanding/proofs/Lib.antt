pub mod Outstanding
mod Cases

pub mod Rows
pub mod Joints
pub mod Heads
pub mod Reading
pub mod Fair
pub mod Cases

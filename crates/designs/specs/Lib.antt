pub mod Panels
pub mod Members
pub mod Records
pub mod Leaves
pub mod Heads
pub mod Designs
pub mod PanelsRead
pub mod Cases

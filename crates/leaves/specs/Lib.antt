pub mod Grid
pub mod Told

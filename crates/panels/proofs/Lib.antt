pub mod Going
pub mod Turns
pub mod Written
pub mod Told

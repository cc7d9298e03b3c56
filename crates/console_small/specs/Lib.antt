-- What the calls on the small cabinet come to. Definitions only. Assumes nothing.
pub mod Named
pub mod Record
pub mod Calls

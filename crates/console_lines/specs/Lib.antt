-- What a text spells, and the bounds of what is read. Definitions only. Assumes nothing.
pub mod Marked
pub mod Digits
pub mod Hex
pub mod Words

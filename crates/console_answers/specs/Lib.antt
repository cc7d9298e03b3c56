-- What the console answers. Definitions only. Assumes nothing.
pub mod Answers

-- A record as text. Definitions only. Assumes nothing.
pub mod Record

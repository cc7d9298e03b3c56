-- What the calls on bytes are answered. Definitions only. Assumes nothing.
pub mod Lent
pub mod Sheets
pub mod Records

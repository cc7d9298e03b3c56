-- What the calls on a run come to. Definitions only. Assumes nothing.
pub mod Calls

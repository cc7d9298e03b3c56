-- What the calls on a run over a feed sheet come to. Definitions only. Assumes nothing.
pub mod Calls

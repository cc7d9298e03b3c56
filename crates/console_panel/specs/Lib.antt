-- What the call on a design is answered. Definitions only. Assumes nothing.
pub mod Panel

pub mod Answer
pub mod Enter
pub mod Turn

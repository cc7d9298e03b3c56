pub mod Sum
pub mod Flow
pub mod Share
pub mod Rest

pub mod Lists
pub mod Sound

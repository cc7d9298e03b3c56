-- Text as bytes, and text that goes into a lent buffer. Definitions only. Assumes nothing.
pub mod Text
pub mod Numbers
pub mod Lists

-- Which texts are entries and lists of a record. Definitions only. Assumes nothing.
pub mod Entries
pub mod Lists

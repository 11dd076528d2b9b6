pub mod Entries
pub mod Layout5
pub mod inner

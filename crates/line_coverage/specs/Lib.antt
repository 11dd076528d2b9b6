pub mod Covers
pub mod inner
pub mod calls

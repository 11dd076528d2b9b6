pub mod inner
pub mod Limits
pub mod calls

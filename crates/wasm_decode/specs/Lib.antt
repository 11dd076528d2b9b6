pub mod Decode
pub mod Names
pub mod inner
pub mod calls

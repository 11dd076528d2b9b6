pub mod Refusal
pub mod inner
pub mod calls

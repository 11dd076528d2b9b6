pub mod Numbering
pub mod inner
pub mod calls

pub mod Hex
pub mod Names
pub mod Numbers
pub mod inner

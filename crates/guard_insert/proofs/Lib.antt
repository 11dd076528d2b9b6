pub mod Guarding
pub mod Meaning

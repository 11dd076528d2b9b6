pub mod Encoding
pub mod calls

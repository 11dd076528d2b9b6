pub mod Bases
pub mod Keeping

pub mod Progress
pub mod Gathering
pub mod Keeping

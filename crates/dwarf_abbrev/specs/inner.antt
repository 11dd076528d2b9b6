pub mod Forks
pub mod Linked

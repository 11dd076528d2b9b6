pub mod Decides
pub mod Kept
pub mod Stands

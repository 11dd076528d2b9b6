pub mod Counts
pub mod Differ
pub mod Over
pub mod Types
pub mod Bodies
pub mod Classes

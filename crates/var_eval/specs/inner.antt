pub mod Told
pub mod PathTold
pub mod Counted
pub mod Named
pub mod Adding
pub mod Sourcing

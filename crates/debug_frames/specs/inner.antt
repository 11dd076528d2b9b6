pub mod Resolving
pub mod Standings
pub mod Placing
pub mod Paths
pub mod Stores

pub mod Found
pub mod Chains
pub mod Placed

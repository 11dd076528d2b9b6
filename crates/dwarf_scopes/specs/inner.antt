pub mod Picks
pub mod Insides
pub mod Passing
pub mod Bases
pub mod Fronts
pub mod Listing
pub mod Holding

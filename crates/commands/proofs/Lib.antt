mod Loads
pub mod Endings
pub mod Givens
pub mod OneOutcome
pub mod Unless
pub mod ReadFiles
mod DistinctLaws
mod PartsLaws
mod ReadingLaws

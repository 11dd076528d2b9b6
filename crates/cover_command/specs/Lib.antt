pub mod SourceLines
pub mod CoverText
pub mod CoverAnswer
pub mod Stops
pub mod inner

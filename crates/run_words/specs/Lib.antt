pub mod Invocations
pub mod RunWords
pub mod CoverWords

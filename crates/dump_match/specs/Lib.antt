pub mod Values
pub mod Frames
pub mod Matching
pub mod Judged
pub mod States
pub mod inner

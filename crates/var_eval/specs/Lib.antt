pub mod Frames
pub mod Locations
pub mod Shown
pub mod Chosen
pub mod Steps
pub mod inner
pub mod PathShown
pub mod calls

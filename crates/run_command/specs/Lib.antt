pub mod Starting
pub mod Hosting
pub mod AllRan
pub mod Recorded
pub mod RunAnswer
pub mod Stops
pub mod inner
pub mod calls

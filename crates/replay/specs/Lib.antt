pub mod Replays
pub mod Moves
pub mod inner

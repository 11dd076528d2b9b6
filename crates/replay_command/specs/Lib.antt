pub mod ReplayText
pub mod ReplayAnswer
pub mod inner
pub mod Moves
pub mod Words

pub mod Answered
pub mod Files
pub mod Looks
pub mod OneReplay
pub mod States
pub mod Splits
pub mod Turns
pub mod WordLaws

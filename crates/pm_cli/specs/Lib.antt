pub mod Answer
pub mod Check
pub mod Show
pub mod Words
pub mod Stops

pub mod Printed
pub mod Answers
pub mod Judged
pub mod OneDebug
pub mod Held

pub mod Spans
pub mod Open
pub mod Digits
pub mod StepLaws
pub mod Complete
pub mod Sound
pub mod Going

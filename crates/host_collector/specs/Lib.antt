pub mod Collecting
pub mod Torn
pub mod inner
pub mod calls

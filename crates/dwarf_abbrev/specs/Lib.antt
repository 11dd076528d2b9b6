pub mod Reading
pub mod inner
pub mod calls

pub mod inner
pub mod calls

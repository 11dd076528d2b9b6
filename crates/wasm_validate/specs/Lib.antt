pub mod Heights
pub mod inner
pub mod calls

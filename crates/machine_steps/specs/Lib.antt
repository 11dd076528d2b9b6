pub mod Places
pub mod inner
pub mod calls

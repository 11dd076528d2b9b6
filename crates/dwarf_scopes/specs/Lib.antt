pub mod Lists
pub mod Ranges
pub mod Scopes
pub mod inner
pub mod calls

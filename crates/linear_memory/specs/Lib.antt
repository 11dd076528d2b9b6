pub mod Memory
pub mod inner
pub mod calls

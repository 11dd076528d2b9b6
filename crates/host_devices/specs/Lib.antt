pub mod Given
pub mod calls

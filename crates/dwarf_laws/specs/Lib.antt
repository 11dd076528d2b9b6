pub mod calls

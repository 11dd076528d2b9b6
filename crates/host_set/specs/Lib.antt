pub mod Sets
pub mod calls

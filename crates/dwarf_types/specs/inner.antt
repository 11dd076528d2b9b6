pub mod Sized
pub mod Firsts
pub mod Keeping

pub mod Place
pub mod Reading
pub mod Laws
pub mod Notes
pub mod Tables
pub mod Refusals
pub mod calls

pub mod Tables
pub mod Naming
pub mod Fronts
pub mod Leavings
pub mod Held
pub mod WrittenFile

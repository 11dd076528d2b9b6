pub mod Signs
pub mod Rotations

pub mod Readings
pub mod Offsets
pub mod Inside
pub mod Tables

pub mod Running
pub mod Halving
pub mod Starts
pub mod Order
pub mod Outlines
pub mod Scans

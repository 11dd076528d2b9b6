pub mod Frames
pub mod InFrames
pub mod Keeping

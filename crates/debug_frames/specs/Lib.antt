pub mod Sections
pub mod Programs
pub mod Files
pub mod Information
pub mod Frames
pub mod Unreadable
pub mod calls
pub mod inner

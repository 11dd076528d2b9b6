pub mod View
pub mod Operators
pub mod Decode
pub mod Meaning
pub mod Named
pub mod FrameBase
pub mod inner

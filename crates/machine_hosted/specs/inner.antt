-- What only proofs and the contracts of inner functions speak of: no promise to those outside rests on it.
pub mod Alone
pub mod FrameRuns
pub mod Meets
pub mod Replies
pub mod Resumes
pub mod Turns
pub mod Watches
pub mod Writes

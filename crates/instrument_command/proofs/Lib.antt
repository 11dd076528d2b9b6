pub mod HeldFiles
pub mod WrittenFile
mod Answering
pub mod Stopping
mod Promises
pub mod Done
pub mod OneAnswer

pub mod Orders
pub mod Merges
pub mod Covered
pub mod Watching
pub mod Invoked
pub mod Commands
pub mod OneCover

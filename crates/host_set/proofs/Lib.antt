pub mod Calls
pub mod Logs
pub mod Names
pub mod Replies
pub mod Sets
pub mod Served

pub mod Replies
pub mod inner
pub mod Record

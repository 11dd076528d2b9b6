-- What contracts on the way say: nobody has to believe it, for all that rests on it is proved.
pub mod Answers
pub mod Courses
pub mod Hosted
pub mod Invocations
pub mod Safe
pub mod Settings
pub mod Watching

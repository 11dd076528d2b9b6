-- What contracts on the way say: nobody has to believe it, for all that rests on it is proved.
pub mod Answers
pub mod Entries
pub mod Instances
pub mod Sessions
pub mod Starts
pub mod Watching

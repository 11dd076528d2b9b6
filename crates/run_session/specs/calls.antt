-- What contracts on the way say: nobody has to believe it, for all that rests on it is proved.
pub mod Told
pub mod Answers
pub mod Collecting
pub mod Progress
pub mod Sessions
pub mod Creating

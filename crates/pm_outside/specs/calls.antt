-- What contracts on the way say: nobody has to believe it, for all that rests on it is proved.
pub mod Answers
pub mod Host
pub mod Kept
pub mod Memory
pub mod Whole

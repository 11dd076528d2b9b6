-- What contracts on the way say: nobody has to believe it, for all that rests on it is proved.
pub mod Variables
pub mod Sourced
pub mod Offsets
pub mod Names

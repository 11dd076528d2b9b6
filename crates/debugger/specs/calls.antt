-- What contracts on the way say: nobody has to believe it, for all that rests on it is proved.
pub mod Sitting
pub mod Words
pub mod Types
pub mod Parts
pub mod Spelled

-- What contracts on the way say: nobody has to believe it, for all that rests on it is proved.
pub mod Numbered
pub mod Steps
pub mod Spans
pub mod Levels
pub mod Kinds
pub mod Knowing
pub mod Tabled

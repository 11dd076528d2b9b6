-- What contracts on the way say: nobody has to believe it, for all that rests on it is proved.
pub mod Answers
pub mod Deciding
pub mod Instructions
pub mod MarkedHeights
pub mod Operands
pub mod Whole

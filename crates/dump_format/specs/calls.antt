-- What contracts on the way say: nobody has to believe it, for all that rests on it is proved.
pub mod Breaking
pub mod Contained
pub mod Grammar
pub mod Meaning
pub mod Noting

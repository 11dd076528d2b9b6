-- What contracts on the way say: nobody has to believe it, for all that rests on it is proved.
pub mod Grammar
pub mod Standing
pub mod Held
pub mod Hulls

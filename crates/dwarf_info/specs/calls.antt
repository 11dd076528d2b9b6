-- What contracts on the way say: nobody has to believe it, for all that rests on it is proved.
pub mod EntryPlaces
pub mod Grammar
pub mod Grammar4
pub mod Trees
pub mod Keeping
pub mod Pairs
pub mod Rows4
pub mod Sizes

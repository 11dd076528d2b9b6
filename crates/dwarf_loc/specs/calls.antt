-- What contracts on the way say: nobody has to believe it, for all that rests on it is proved.
pub mod Grammar
pub mod Grammar5
pub mod Said

-- What contracts on the way say: nobody has to believe it, for all that rests on it is proved.
pub mod Subranges
pub mod Known
pub mod Inside
pub mod Contents
pub mod Numbers

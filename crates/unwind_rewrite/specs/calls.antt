-- What contracts on the way say: nobody has to believe it, for all that rests on it is proved.
pub mod Bodies
pub mod Contexts
pub mod Numbers
pub mod Points
pub mod Rewritten

-- What contracts on the way say: nobody has to believe it, for all that rests on it is proved.
pub mod Codes
pub mod Ended
pub mod Given
pub mod Input
pub mod Loaded

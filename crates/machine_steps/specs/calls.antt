-- What contracts on the way say: nobody has to believe it, for all that rests on it is proved.
pub mod FramesMeet
pub mod Layout
pub mod Meets
pub mod Tallies
pub mod Watches
pub mod Runs
pub mod Watched

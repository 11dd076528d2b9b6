-- What contracts on the way say: nobody has to believe it, for all that rests on it is proved.
pub mod Agreement
pub mod Length
pub mod Typed
pub mod Verdicts
pub mod Standing
pub mod Steps
pub mod Telling
pub mod Landings
pub mod Facts
pub mod Known
pub mod Derived
pub mod Offsets
pub mod Pieces
pub mod Rewrite
pub mod Slots
pub mod Guards

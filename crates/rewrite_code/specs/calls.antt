-- What contracts on the way say: nobody has to believe it, for all that rests on it is proved.
pub mod Contexts
pub mod Rising
pub mod Places
pub mod Writing
pub mod KeptLandings
pub mod KeptDerivations

-- What contracts on the way say: nobody has to believe it, for all that rests on it is proved.
pub mod Bare
pub mod Example
pub mod Given
pub mod LowSizes
pub mod Unwinding
pub mod FlatCode
pub mod Wrappers
pub mod Instrument

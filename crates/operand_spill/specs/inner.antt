-- What only proofs and the contracts of inner functions speak of: no promise to those outside rests on it.
pub mod Greatest
pub mod Knowing
pub mod Noting
pub mod Exposing
pub mod Deriving

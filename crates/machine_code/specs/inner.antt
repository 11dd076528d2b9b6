-- What only proofs and the contracts of inner functions speak of: no promise to those outside rests on it.
pub mod Sides
pub mod Codes
pub mod Numbers
pub mod Tree

-- What only proofs and the contracts of inner functions speak of: no promise to those outside rests on it.
pub mod Merging
pub mod Running
pub mod Steps

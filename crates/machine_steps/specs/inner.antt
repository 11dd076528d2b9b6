-- What only proofs and the contracts of inner functions speak of: no promise to those outside rests on it.
pub mod Entries
pub mod Cells
pub mod Moves
pub mod Turns

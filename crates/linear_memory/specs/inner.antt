-- What only proofs and the contracts of inner functions speak of: no promise to those outside rests on it.
pub mod Changes
pub mod Lending
pub mod Ownership
pub mod Table

-- What only proofs speak of.
pub mod Numbered

-- What contracts on the way say: nobody has to believe it, for all that rests on it is proved.
pub mod Imports
pub mod Meaning
pub mod NameGrammar
pub mod Steps

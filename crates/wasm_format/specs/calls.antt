-- What contracts on the way say: nobody has to believe it, for all that rests on it is proved.
pub mod Breaking
pub mod Choices
pub mod Grammar
pub mod InstructionBreaking
pub mod InstructionGrammar
pub mod Meaning

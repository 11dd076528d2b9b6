pub mod ValueLaws
pub mod Spots
pub mod Order
pub mod InTurn
pub mod InState
pub mod Closings
pub mod FrameLists

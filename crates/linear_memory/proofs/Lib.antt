mod Boxed
mod Changed
pub mod Contents
mod Instructions
mod Making
mod Moves
mod Windows
mod ListsOfCalls
mod LowBytes

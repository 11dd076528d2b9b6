pub mod Answering
pub mod Hostings
mod Valid
pub mod Beginning
mod Entries
pub mod OneWritten
pub mod Refusals
pub mod Commands
mod Stopping
mod Fitting

pub mod Words
pub mod Summary
pub mod SelftestAnswer
pub mod Stops
pub mod inner
pub mod Selftest
pub mod Handing

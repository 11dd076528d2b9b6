pub mod InstrumentAnswer
pub mod Headline
pub mod Stops
pub mod calls

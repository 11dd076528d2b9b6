pub mod Splits
pub mod Numbers
pub mod Lines
pub mod RecordWords
pub mod Values
pub mod Writes
pub mod RecordLines

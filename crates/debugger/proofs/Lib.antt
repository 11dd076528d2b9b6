pub mod Locals
pub mod Small
pub mod VariableLines
pub mod ListingLines
pub mod Rows
pub mod WordLaws
pub mod FrameLines

pub mod Sums
pub mod Spans
pub mod Placing
pub mod Visits
pub mod Order

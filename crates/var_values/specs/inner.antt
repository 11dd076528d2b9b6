pub mod Wide
pub mod Parts
pub mod Close
pub mod Scalar
pub mod Odometer
pub mod Passing

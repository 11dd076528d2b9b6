mod Lists
mod Steps
pub mod Tellings
pub mod Handing
mod Turning
mod Sessions
mod Stopped
pub mod Ends
pub mod Invocations
mod Ones
mod Nexts
pub mod Whole
pub mod Stops
pub mod Created
pub mod Deliveries
pub mod Endings

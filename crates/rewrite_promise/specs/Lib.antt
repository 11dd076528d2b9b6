pub mod Outside
pub mod Admitted
pub mod calls

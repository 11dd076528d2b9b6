pub mod Forms5
pub mod Indices
pub mod Version5
pub mod Lists
pub mod inner
pub mod Plain
pub mod Units
pub mod calls

pub mod Lists
pub mod Contents
pub mod Version4
pub mod inner
pub mod Kinds
pub mod Addresses
pub mod Version5
pub mod calls

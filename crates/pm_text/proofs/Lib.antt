mod ExtendsLaws
mod HexLaws
pub mod NameLaws
pub mod NumberLaws
pub mod Lists
pub mod Utf8
pub mod Stacks

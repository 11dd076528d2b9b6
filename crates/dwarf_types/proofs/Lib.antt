pub mod Fuel
pub mod ArraySizes
pub mod SizeLaws
pub mod OwnLaws
pub mod InsideLaws
pub mod ContentLaws
pub mod KeptLaws
pub mod FirstLaws

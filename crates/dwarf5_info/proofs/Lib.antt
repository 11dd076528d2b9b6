pub mod UnitLaws5
pub mod UnitRows5
pub mod LookUp
pub mod ReadLaws5
pub mod ListLaws
pub mod Turns
pub mod Worked
pub mod PlainLaws

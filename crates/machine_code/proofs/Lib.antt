pub mod Table
pub mod Targets
pub mod TreeLaws
pub mod WordLaws
pub mod NumberLaws
pub mod ModuleLaws

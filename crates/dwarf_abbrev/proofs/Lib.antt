pub mod Places
pub mod Exact
pub mod TrieLaws
pub mod LinkLaws

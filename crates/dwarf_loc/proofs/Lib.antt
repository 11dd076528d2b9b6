pub mod Exact
pub mod Sought
pub mod Standing
pub mod Numbers
pub mod Exact5
pub mod SaidLaws

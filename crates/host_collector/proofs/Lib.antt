pub mod Tests
pub mod Entries
pub mod Stands
pub mod Judged
pub mod Gathers
pub mod Faults

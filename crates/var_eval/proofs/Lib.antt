pub mod ShownLaws
mod Stops
mod Places
mod Rows
mod Walks
mod Told
mod SourceLaws
mod NamedLaws
mod OwnLaws
mod NameLaws
mod OffsetLaws
mod MeantLaws

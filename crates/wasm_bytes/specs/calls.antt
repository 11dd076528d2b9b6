-- What contracts on the way say: nobody has to believe it, for all that rests on it is proved.
pub mod Answers
pub mod Sections
pub mod Spelling
pub mod Stopping
pub mod NotedSteps

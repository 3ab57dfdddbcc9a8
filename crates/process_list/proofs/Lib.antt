pub mod Links
pub mod Following
pub mod Closing
pub mod Answers
pub mod Examples
pub mod WrongPrograms

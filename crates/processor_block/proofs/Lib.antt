pub mod Fitting
pub mod Searching
pub mod Meaning
pub mod Answers

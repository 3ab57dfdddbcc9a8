pub mod GivenRuns
pub mod Joining
pub mod Counting

pub mod Runs
pub mod Search
pub mod Rows

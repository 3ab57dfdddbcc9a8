pub mod Turning
pub mod Rows
pub mod Answers
pub mod Faults
pub mod Length
pub mod Examples

pub mod ManyExtents
pub mod WholeMap
pub mod Answers
pub mod Examples

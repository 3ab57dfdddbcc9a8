pub mod ReadBack
pub mod Passes
pub mod Whole
pub mod Judging
pub mod Examples

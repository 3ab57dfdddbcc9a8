pub mod List
pub mod Exact
pub mod Call
pub mod Inner

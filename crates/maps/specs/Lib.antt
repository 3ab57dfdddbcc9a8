pub mod MapOf
pub mod Demand3
pub mod Call
pub mod Inner

pub mod Pool
pub mod Call
pub mod Inner

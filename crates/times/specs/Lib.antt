pub mod Time
pub mod Call

pub mod Halving
pub mod Ascending
pub mod CaseLookup
pub mod Guard
pub mod LinearSearch

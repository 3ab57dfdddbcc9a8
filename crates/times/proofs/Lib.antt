pub mod Doubles
pub mod Field
pub mod Examples

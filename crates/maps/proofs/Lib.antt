pub mod Ranges
pub mod Mapping
pub mod Whole
pub mod WrongPrograms

pub mod Beginning
pub mod Fitting
pub mod Listing
pub mod Meaning
pub mod Parts
pub mod Examples
pub mod WrongPrograms

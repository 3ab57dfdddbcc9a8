pub mod Laying
pub mod PageBytes
pub mod TwoPasses

pub mod Extents
pub mod Layout
pub mod Reading
pub mod Build
pub mod Inner

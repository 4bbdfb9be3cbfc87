pub mod Levels
pub mod Halves

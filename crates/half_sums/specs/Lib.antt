pub mod Room
pub mod Halves

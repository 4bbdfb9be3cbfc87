pub mod Weaving

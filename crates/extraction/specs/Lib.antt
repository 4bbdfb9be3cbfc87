pub mod Bounds
pub mod Steps
pub mod Vectors
pub mod Nodes

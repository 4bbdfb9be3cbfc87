pub mod Strands
pub mod Steps

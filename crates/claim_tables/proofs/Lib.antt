pub mod Claiming
pub mod Parts

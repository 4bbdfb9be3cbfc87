pub mod Shift
pub mod Limits
pub mod Powers

pub mod Rows
pub mod Terms
pub mod ThreeRows
pub mod Extension

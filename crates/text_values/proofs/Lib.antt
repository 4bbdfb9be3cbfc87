pub mod Cells
pub mod Wants
pub mod Columns
pub mod Orders
pub mod Gathers

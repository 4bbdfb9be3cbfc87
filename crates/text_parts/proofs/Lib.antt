pub mod From
pub mod Cells
pub mod Counted
pub mod Exactly
pub mod Flat

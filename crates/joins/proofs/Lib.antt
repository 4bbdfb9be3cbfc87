pub mod Joining
pub mod RowHalves

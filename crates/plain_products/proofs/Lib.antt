pub mod SumsOfHalves
pub mod Rowwise
pub mod Rows

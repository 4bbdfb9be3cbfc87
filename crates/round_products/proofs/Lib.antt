pub mod Less
pub mod Products
pub mod Halves
pub mod Mixing
pub mod Rowwise
pub mod Itemwise

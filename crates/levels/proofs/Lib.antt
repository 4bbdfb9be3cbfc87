pub mod Shares
pub mod Parts
pub mod Halves
pub mod Pairs
pub mod Blocks
pub mod Descent
pub mod Ascent

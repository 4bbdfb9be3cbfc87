pub mod Quarters
pub mod Shares
pub mod Halving

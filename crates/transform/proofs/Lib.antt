pub mod Values
pub mod Reducing
pub mod Placing
pub mod Sums

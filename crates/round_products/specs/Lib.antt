pub mod Messages
pub mod Sums
pub mod Items

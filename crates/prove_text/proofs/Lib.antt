pub mod Honest
pub mod Proves
pub mod Output

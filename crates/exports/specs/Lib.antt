pub mod Border
pub mod Promises
pub mod Claim

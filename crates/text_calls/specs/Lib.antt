pub mod Texts
pub mod Promises

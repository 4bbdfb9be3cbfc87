pub mod Batching
pub mod Sending

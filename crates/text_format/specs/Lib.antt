pub mod Text
pub mod Lines
pub mod Programs
pub mod RoundTrip
pub mod Promises
pub mod ProveVerify

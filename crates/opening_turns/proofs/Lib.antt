pub mod Inputs
pub mod Storing
pub mod Checking
pub mod Turning

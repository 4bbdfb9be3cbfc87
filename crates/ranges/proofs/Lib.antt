pub mod Scan
pub mod Magnitude
pub mod Numbers

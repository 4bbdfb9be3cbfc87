pub mod Steps
pub mod Divisor

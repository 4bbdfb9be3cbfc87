pub mod Put
pub mod Tables
pub mod Shown

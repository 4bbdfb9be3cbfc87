pub mod Demand3
pub mod Performed
pub mod NeverVacuous
pub mod Weights

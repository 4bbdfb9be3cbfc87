pub mod Most
pub mod Rounds

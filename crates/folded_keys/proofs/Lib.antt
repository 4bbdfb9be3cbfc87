pub mod KeyTurns
pub mod Summing
pub mod Gathering
pub mod Ending

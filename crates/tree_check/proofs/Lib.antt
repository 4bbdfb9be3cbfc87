pub mod Checks
pub mod Workspace
pub mod Descent
pub mod Stages
pub mod Root

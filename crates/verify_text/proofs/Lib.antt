pub mod Verifies
pub mod Checks
pub mod Said

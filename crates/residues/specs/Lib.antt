pub mod Lists
pub mod Residues
pub mod Elements
pub mod Places

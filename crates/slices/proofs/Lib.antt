-- What the proofs of several functions use, and the laws of slices.
pub mod Elements
pub mod Rows
pub mod Lent
pub mod Laws

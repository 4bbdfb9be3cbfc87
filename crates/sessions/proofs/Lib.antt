-- What the proofs of several functions use, and the laws of records.
pub mod Answers
pub mod Laws
pub mod Claims

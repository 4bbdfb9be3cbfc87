-- What the proofs of several functions use; and the claim for the exported calls.
pub mod Answers
pub mod Refused
pub mod Steps
pub mod Moves
pub mod Claim

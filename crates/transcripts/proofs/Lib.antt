pub mod Replaying
pub mod RowParts
pub mod Answers

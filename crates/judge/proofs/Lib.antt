pub mod Signs
pub mod Split
pub mod Sums
pub mod Answers
pub mod Same

pub mod Required
pub mod Digits
pub mod LineTexts
pub mod PartTexts
pub mod WholeText
pub mod FewLines
pub mod Answers
pub mod Shows

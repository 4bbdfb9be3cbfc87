pub mod Rows
pub mod Drawn
pub mod DamagedTexts

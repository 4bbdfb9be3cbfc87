pub mod Ready
pub mod Quotients
pub mod Ending
pub mod Polynomials
pub mod Items
pub mod ByValue

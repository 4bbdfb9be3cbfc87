pub mod OneProduct
pub mod Ends
pub mod Asked

pub mod Claimed
pub mod Beginning
pub mod Continued

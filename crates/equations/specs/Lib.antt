pub mod Given
pub mod Items

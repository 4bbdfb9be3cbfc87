pub mod Narrow
pub mod Refuses
pub mod Whole
pub mod OnText
pub mod Rooms

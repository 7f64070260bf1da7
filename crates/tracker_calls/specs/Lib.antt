pub mod Given
pub mod Part
pub mod Named
pub mod Seen
pub mod ToldText

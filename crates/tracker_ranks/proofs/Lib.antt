pub mod Given
pub mod Keeping
pub mod Loading
pub mod OneOrder

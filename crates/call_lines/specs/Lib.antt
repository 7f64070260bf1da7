pub mod Given
pub mod Part
pub mod Named
pub mod Asked
pub mod Body
pub mod Taken
pub mod Plain
pub mod Lent

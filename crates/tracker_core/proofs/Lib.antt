pub mod Counts
pub mod Desks
pub mod Forms
pub mod Kept
pub mod Left
pub mod Order
pub mod Steps

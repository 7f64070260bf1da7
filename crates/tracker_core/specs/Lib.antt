pub mod Counts
pub mod Desk
pub mod Left

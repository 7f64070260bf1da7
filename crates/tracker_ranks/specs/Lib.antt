pub mod Ranked
pub mod Loaded
pub mod Laws
pub mod Rows

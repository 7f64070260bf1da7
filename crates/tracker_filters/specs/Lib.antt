pub mod Saved
pub mod Watched
pub mod Cells
pub mod Ready
pub mod Sprint
pub mod Members
pub mod Rows

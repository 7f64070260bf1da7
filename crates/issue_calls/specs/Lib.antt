pub mod Create
pub mod Group
pub mod Rows

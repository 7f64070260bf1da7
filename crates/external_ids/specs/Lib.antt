pub mod Form
pub mod Ids
pub mod Rows

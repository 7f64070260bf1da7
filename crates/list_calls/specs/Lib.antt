pub mod Browsing
pub mod Found
pub mod Rows
pub mod Sorting

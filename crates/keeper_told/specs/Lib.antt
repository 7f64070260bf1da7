pub mod Table
pub mod Content
pub mod Keeping
pub mod Crash
pub mod Reading
pub mod Reopening

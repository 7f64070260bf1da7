pub mod Days
pub mod DateText
pub mod Reading
pub mod Laws
pub mod Rows

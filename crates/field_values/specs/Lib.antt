pub mod Words
pub mod GroupMembers
pub mod Parts
pub mod Years
pub mod Digits

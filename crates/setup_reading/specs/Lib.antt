pub mod Resolving
pub mod Reading

pub mod Print
pub mod Nesting
pub mod Spelling
pub mod Check

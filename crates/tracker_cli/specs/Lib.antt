pub mod Answering
pub mod Commands
pub mod Numerals
pub mod Outcome
pub mod Serving
pub mod Store
pub mod Texts
pub mod Words

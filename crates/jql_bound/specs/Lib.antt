pub mod Condition
pub mod Words
pub mod Negation

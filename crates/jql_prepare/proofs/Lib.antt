pub mod Dates
pub mod Conditions

pub mod Setups
pub mod Texts
pub mod Written

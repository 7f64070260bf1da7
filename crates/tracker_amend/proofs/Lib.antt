pub mod Alone
pub mod Amends

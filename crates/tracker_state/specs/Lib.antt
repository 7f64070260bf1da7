pub mod Check
pub mod State
pub mod Plan
pub mod Rows
pub mod Asking

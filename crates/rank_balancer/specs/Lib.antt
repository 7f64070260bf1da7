pub mod Balance
pub mod Border
pub mod Pick
pub mod Step
pub mod Planned
pub mod Laws
pub mod Rows

pub mod Grouping
pub mod Holding
pub mod Means
pub mod Ops
pub mod Showing

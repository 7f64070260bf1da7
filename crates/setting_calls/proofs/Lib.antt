pub mod Checked
pub mod Means
pub mod Members
pub mod Ops

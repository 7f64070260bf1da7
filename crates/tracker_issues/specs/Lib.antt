pub mod Counts
pub mod Issues

pub mod Bulk
pub mod Counting
pub mod Fitting
pub mod InSprints
pub mod Named
pub mod Outcomes
pub mod Resolving

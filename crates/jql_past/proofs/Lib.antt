pub mod Several
pub mod Intervals
pub mod Walks
pub mod Nexts
pub mod Bounds
pub mod Disturbances
pub mod Own
pub mod Truth

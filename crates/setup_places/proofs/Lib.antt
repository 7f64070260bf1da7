pub mod Faults
pub mod Feeds
pub mod Kept

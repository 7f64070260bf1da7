pub mod InSprints
pub mod Resolved
pub mod Wants
pub mod Weight

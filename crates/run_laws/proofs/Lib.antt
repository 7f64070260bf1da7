pub mod Listings
pub mod Opened
pub mod Amended
pub mod Doors
pub mod Exports
pub mod Records
pub mod Twice
pub mod Whole

mod TrackedSprints
mod Search
mod Sums
pub mod Courses
mod AfterGroups
mod Charts
mod Additions

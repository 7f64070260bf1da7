pub mod Standings
pub mod Ordered
pub mod Digits
pub mod Joining
pub mod Views
pub mod Rights
pub mod Sprints

pub mod Block
pub mod Changes
pub mod Changed
pub mod Feed
pub mod FeedList
pub mod Held
pub mod Laws
pub mod Rows

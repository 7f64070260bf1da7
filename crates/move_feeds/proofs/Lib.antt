pub mod Replay
pub mod Lacking
pub mod One
pub mod Blocks
pub mod AllFeeds
pub mod Events
pub mod Takes
pub mod Places

pub mod Seen
pub mod Told
pub mod States
pub mod Load
pub mod Replay
pub mod Work
pub mod Laws
pub mod Rows

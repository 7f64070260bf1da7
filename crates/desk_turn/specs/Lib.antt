pub mod Answer
pub mod History
pub mod Passes
pub mod Plays
pub mod Resting
pub mod Rule
pub mod Views

pub mod Counts
pub mod Histories
pub mod Keys
pub mod Projects
pub mod Tallies

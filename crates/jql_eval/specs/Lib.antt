pub mod Told
pub mod Right
pub mod Joined
pub mod Numbers
pub mod Standings
pub mod Laws

pub mod Ends
pub mod Logs
pub mod Stores

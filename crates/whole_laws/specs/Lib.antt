pub mod Commands
pub mod Connections

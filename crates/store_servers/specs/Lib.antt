pub mod Keepers
pub mod Serving

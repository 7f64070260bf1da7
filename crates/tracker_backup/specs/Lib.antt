pub mod Ends
pub mod Dumping
pub mod Restoring
pub mod Asking

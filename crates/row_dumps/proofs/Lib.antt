pub mod Placed
pub mod Small
pub mod Dumped
pub mod Walked

pub mod Described
pub mod Reply
pub mod Sorted

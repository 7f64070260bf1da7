pub mod InOrder
pub mod Lists
pub mod Shows
pub mod Writing

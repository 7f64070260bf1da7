pub mod Asked
pub mod Reply

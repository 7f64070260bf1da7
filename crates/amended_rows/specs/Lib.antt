pub mod Amended
pub mod Amending
pub mod Laws

pub mod Listed
pub mod Events
pub mod Laws

pub mod Listed
pub mod Gathered
pub mod Rules
pub mod Loading
pub mod Laws

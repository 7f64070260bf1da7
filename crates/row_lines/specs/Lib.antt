pub mod RowText
pub mod Telling
pub mod Writing
pub mod Laws

pub mod ShortList
pub mod ByName

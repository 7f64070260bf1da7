pub mod Indexing
pub mod Among
pub mod SeenNames

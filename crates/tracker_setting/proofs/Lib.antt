pub mod Surrounding

mod ByName
mod Moved

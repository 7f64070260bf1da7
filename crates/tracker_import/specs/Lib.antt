pub mod Calls
pub mod Import
pub mod Export
pub mod Load
pub mod Stages

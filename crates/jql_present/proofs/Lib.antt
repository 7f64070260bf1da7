pub mod Staying
pub mod Firsts
pub mod Bytes
pub mod Runs
pub mod Rising

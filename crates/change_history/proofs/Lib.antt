pub mod Adding
pub mod Cells
pub mod Placing
pub mod Befores
pub mod Present
pub mod Smalls

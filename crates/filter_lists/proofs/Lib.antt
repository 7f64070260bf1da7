pub mod Shown
pub mod Effects
pub mod Calls
pub mod Cells
pub mod Walk

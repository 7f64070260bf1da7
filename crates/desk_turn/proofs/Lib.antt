pub mod Totals
pub mod Apart
pub mod Standing
pub mod Others
pub mod Moves
pub mod Ends
pub mod Calls

pub mod Counts
pub mod LocalSteps

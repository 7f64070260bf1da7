pub mod Interval
pub mod Next
pub mod Near

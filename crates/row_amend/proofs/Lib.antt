pub mod KeptMembers
pub mod Small
pub mod Tried
pub mod Opening

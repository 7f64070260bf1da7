pub mod JsonData
pub mod JsonTokens
pub mod JsonMembers

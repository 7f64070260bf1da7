pub mod AnswerLines
pub mod Commands
pub mod Counted
pub mod Grammar
pub mod Loads
pub mod Outcomes
pub mod Served
pub mod WordLists

pub mod Calls
pub mod CallByCall
pub mod IssueByIssue
pub mod LoadMade
pub mod Members
pub mod Stages
pub mod Worked
pub mod WorkedLoad

pub mod Sorting
pub mod Numbers
pub mod WorkedReplies
pub mod WorkedDescriptions

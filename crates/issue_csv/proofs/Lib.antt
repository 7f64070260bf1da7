pub mod Fields
pub mod Readings
pub mod NextCalls
pub mod Whole
pub mod Ends
pub mod WorkedReading
pub mod WorkedWriting

pub mod Names
pub mod AskedLines
pub mod WorkedLines
pub mod Taking
pub mod Bodies
pub mod WorkedBodies
pub mod PlainLines

pub mod Answering
pub mod Refusals
pub mod Served
pub mod Serving
pub mod Telling
pub mod Theirs

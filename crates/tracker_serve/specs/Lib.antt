pub mod Due
pub mod Round
pub mod Serving

pub mod Shows
pub mod Written

pub mod Printed
pub mod Lines
pub mod Told
pub mod Behind
pub mod Counted
pub mod Written

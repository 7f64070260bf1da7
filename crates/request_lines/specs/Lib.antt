pub mod Bytes
pub mod Causes
pub mod Lines
pub mod Piece
pub mod Readings
pub mod Run

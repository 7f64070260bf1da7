pub mod ByNumber
pub mod Placed
pub mod Listed
pub mod Free
pub mod Lengths
pub mod Mapped
pub mod Kept
pub mod Search

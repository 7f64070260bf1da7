pub mod History
pub mod Places
pub mod Span
pub mod Before
pub mod Small
pub mod Key
pub mod Kept

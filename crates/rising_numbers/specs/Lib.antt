pub mod ByNumber
pub mod Places
pub mod Laws

pub mod Trail
pub mod Serving
pub mod Seated
pub mod Rounds
pub mod Left

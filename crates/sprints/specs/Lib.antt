pub mod State
pub mod Sprint
pub mod Change
pub mod Laws

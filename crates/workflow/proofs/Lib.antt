pub mod Sameness
pub mod Putting
pub mod Sorting
pub mod Differing
pub mod FitPlans
pub mod LeastOf
pub mod SoundSetups

pub mod Called
pub mod Checked
pub mod MemberOps
pub mod Pushed
pub mod Sprinting
pub mod States
pub mod Watching

pub mod Putting
pub mod opening

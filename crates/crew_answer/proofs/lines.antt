pub mod Pushing
pub mod Tells

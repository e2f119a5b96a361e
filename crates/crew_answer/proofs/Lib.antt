pub mod Example
pub mod Limits
pub mod Listed

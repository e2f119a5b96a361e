pub mod Codes
pub mod packed

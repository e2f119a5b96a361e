pub mod Ranges
pub mod Cards

pub mod Spelling
pub mod Cards

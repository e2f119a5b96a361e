pub mod Written
pub mod Parts
pub mod Sequences

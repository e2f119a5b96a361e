pub mod Writing
pub mod Back
pub mod Agreed

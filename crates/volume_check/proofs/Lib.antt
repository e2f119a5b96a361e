pub mod Chunks
pub mod Comparing
pub mod Placing

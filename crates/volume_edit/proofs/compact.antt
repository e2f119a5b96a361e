pub mod Ways
pub mod Walk
pub mod Sequences

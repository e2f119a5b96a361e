pub mod Leftmost
pub mod Verdicts
pub mod Walked
pub mod Ways
pub mod Screened

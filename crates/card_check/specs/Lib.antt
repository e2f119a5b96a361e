pub mod Judging
pub mod Verdicts
pub mod packed

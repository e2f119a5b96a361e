pub mod Writes
pub mod Appends
pub mod Kept
pub mod Accepted
pub mod Answered

pub mod Reading
pub mod Sums

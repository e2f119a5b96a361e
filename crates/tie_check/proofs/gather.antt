-- Laws of gathering.
pub mod Slots
pub mod Tags
pub mod Growing
pub mod Counting

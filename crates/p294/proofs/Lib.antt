-- Laws of the numbers given.
pub mod Giving

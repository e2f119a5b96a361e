pub mod Offences
pub mod Sizes

pub mod Reading
pub mod Filled
pub mod Back
pub mod Agreed

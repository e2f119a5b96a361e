pub mod Serials
pub mod Directions
pub mod Corrections
pub mod Headings
pub mod Pairs

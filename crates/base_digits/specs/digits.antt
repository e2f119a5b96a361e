pub mod Figures
pub mod Digits
pub mod Columns

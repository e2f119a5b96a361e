pub mod Figures
pub mod Reading

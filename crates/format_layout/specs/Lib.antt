-- The layout table and the questions that are asked of it.
pub mod Shape
pub mod Table
pub mod Layouts
pub mod Columns
pub mod Forms
pub mod Names
pub mod packed
pub mod ranges

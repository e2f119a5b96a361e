-- Laws of the check of ties.
pub mod Columns
pub mod Order
pub mod Walked

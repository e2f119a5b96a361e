pub mod Moved
pub mod Spelled
pub mod Rows
pub mod Marked

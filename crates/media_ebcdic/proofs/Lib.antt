pub mod Lines
pub mod Undone
pub mod Buffers
pub mod Examples

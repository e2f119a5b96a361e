pub mod printable
pub mod text
pub mod packed

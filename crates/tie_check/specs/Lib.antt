pub mod Answer
pub mod packed

pub mod Answer
pub mod lines

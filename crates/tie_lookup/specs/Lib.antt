pub mod questions
pub mod packed

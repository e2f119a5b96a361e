pub mod digits
pub mod signs

-- Laws of what is counted.
pub mod Points

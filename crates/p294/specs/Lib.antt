pub mod Given
pub mod answers
pub mod offered

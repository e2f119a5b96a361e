-- Laws of the header's refusal.
pub mod Rows
pub mod Exactly
pub mod Accepted
pub mod Readings
pub mod Opens
pub mod Moved
pub mod Examples
pub mod CardExamples

-- Laws of the questions about a key.
pub mod Answering
pub mod Offered
pub mod Agreed
pub mod Worked

pub mod Ends
pub mod Room

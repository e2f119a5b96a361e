-- Laws of the header's refusal.
pub mod Placed
pub mod Block
pub mod Walked
pub mod Lengths

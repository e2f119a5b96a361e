-- Laws of packed keys.
pub mod Bits
pub mod Steps
pub mod Told
pub mod Vessels

-- Laws of the keys that stand on cards.
pub mod Found
pub mod Told
pub mod Marks
pub mod Readings

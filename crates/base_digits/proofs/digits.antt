pub mod Walk
pub mod Spell
pub mod Parts
pub mod Answers
pub mod Numbers
pub mod Bools
pub mod Blank

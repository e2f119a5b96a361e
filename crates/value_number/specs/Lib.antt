pub mod number
pub mod number_entry
pub mod packed

pub mod angle
pub mod axes
pub mod coordinate_entry
pub mod grid

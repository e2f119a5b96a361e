-- Laws of the layout table.
pub mod Every
pub mod Places
pub mod Lines
pub mod Named
pub mod Columns
pub mod Numbers
pub mod Numbering
pub mod Sets
pub mod Labels

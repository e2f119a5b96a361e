-- How the code packs keys and the table of ties, each in one number. No promise to a caller cites this.
pub mod Numbers
pub mod Rows

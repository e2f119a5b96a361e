-- How the code gathers definitions, counts them and walks over the cards. No promise to a caller cites this.
pub mod Numbers
pub mod Gathered
pub mod Shared
pub mod Totals
pub mod Kinds
pub mod Asked
pub mod Stored
pub mod Begins
pub mod Listed

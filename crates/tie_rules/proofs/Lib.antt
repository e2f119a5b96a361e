-- Laws of the table of ties, and of the keys on a card.
pub mod columns
pub mod key_laws

pub mod exactly
pub mod rewriting

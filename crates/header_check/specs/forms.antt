pub mod Cards
pub mod Forms

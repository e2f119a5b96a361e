pub mod Opening
pub mod Refusing
pub mod forms
pub mod packed

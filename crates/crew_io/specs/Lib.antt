pub mod input

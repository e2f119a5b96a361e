pub mod Tables
pub mod Translating

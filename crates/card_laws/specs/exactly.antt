pub mod Rows
pub mod Words
pub mod Tables
pub mod Offences
pub mod Opened

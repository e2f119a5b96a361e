pub mod Leading
pub mod Small
pub mod Telling

pub mod Judging
pub mod Laying
pub mod Cards
pub mod Filing
pub mod Printed
pub mod Back

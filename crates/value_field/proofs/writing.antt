pub mod Back
pub mod Agreed
pub mod Printed

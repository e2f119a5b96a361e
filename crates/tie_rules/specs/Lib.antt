pub mod Ties
pub mod Keys
pub mod Readings
pub mod Offered
pub mod Definitions
pub mod Faults
pub mod packed

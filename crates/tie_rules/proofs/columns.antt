pub mod Defining
pub mod Picked
pub mod Slots
pub mod Tied

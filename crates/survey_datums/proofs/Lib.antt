pub mod Noting
pub mod Answering
pub mod Placing
pub mod Chained
pub mod Moved
pub mod Laying
pub mod Ways

pub mod Filling
pub mod Steps
pub mod Walking
pub mod Levels
pub mod Fewest

pub mod Adding
pub mod Before
pub mod Only
pub mod Telling
pub mod Walking

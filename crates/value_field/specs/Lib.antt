pub mod spelling
pub mod writing

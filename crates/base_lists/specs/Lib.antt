pub mod Count
pub mod Laid
pub mod Parts

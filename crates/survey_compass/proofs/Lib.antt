pub mod Bounds
pub mod Laws
pub mod Listed
pub mod Nearest
pub mod Reading
pub mod Reordered
pub mod Told
pub mod Turning

pub mod Header
pub mod Media
pub mod Words
pub mod Ebcdic
pub mod Volumes
pub mod Heading
pub mod Rewritten

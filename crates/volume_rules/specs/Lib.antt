pub mod Volume
pub mod Sound
pub mod Judged
pub mod Appended
pub mod Converted
pub mod Latest
pub mod SameLine
pub mod Packed

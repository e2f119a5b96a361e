pub mod Places
pub mod Worded
pub mod Walk
pub mod Apart
pub mod Skip
pub mod Examples

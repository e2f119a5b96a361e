-- Laws of flagging.
pub mod Kept

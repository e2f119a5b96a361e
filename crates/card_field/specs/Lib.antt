pub mod Fields
pub mod Reading
pub mod judging
pub mod needing
pub mod seeking

pub mod ArcWriting
pub mod ArcFilled
pub mod ArcBack
pub mod ArcAgreed
pub mod GridWriting
pub mod GridBack
pub mod GridAgreed

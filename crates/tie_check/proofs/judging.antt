-- Laws of the kinds of fault that a column has.
pub mod Answered
pub mod Once
pub mod Asked
pub mod Defining
pub mod Judged
pub mod Rows
pub mod Stated

-- Laws of the notes.
pub mod Steps
pub mod Reading
pub mod Layouts
pub mod Flags
pub mod Noting
pub mod Named

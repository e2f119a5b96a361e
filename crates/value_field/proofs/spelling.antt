pub mod OneKind
pub mod Standing
pub mod Absence

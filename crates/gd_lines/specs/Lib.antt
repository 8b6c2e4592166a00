pub mod Numbering
pub mod Kept
pub mod Names
pub mod LinesInside

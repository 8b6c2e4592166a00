pub mod Holdings
pub mod Adding
pub mod Known
pub mod Names
pub mod Classes
pub mod Classed
pub mod Inside

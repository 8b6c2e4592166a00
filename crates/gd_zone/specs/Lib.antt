pub mod Range
pub mod Names
pub mod Zone
pub mod Clock

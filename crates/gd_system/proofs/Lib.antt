pub mod Names
pub mod Checks
pub mod Growth
pub mod Positions
pub mod Slots
pub mod Making
pub mod NamedEnds
mod Examples
pub mod Same

pub mod Walks
pub mod Grown
pub mod Steps
pub mod Fields
pub mod Levels
pub mod Counts
pub mod Agreement
pub mod Directions
mod Examples
pub mod Same
pub mod Lifts

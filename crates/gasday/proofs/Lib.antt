pub mod Carrying
pub mod Writing

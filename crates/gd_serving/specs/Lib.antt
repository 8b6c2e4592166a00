pub mod Lines
pub mod Yields
pub mod Seen
pub mod Turns
pub mod Runs
pub mod Replays

pub mod Kept
pub mod Postings
pub mod Replay

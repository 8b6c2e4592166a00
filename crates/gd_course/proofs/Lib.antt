pub mod Last
pub mod Running
pub mod Publishing
pub mod Posting

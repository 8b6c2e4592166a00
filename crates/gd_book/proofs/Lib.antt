mod Legal
pub mod Posting
mod Replaying

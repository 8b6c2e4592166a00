pub mod Bumping
pub mod Entering
pub mod Fetched
pub mod Kept
pub mod Found
pub mod Refused
pub mod Repeating

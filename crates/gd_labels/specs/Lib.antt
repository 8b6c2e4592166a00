pub mod Links
pub mod Findings
pub mod Events
pub mod Searches

pub mod Rounds
pub mod Summaries
pub mod Outcomes
pub mod Carried

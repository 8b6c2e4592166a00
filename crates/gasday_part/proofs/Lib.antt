pub mod Writing
pub mod Finding
mod Openings
pub mod Inquiring
mod Judging
mod SolutionExamples

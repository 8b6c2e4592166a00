pub mod Faults
pub mod Soundness
pub mod Bumps
pub mod Findings
pub mod Repeats
pub mod Calls

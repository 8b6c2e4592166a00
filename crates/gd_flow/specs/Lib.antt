pub mod Feasible
pub mod Inside
pub mod Keeping
pub mod Repair
pub mod Search
pub mod Ways

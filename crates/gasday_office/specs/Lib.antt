pub mod Blocks
pub mod Calls
pub mod Days
pub mod Offices
pub mod Phases

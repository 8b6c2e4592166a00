pub mod Closing
pub mod Named
pub mod Noting
pub mod Opening
pub mod Refusals
pub mod Texts

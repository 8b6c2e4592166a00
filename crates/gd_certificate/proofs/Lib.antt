pub mod Rise
pub mod Paying
pub mod Passing
pub mod Searching
mod Examples
pub mod Same

pub mod Moments
pub mod Examples

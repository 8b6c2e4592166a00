pub mod Body
pub mod Publishable
pub mod Rows
pub mod Spread

pub mod Building
pub mod Values
pub mod Days
pub mod Members
pub mod Prices

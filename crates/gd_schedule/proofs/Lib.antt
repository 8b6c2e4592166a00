pub mod Telescope
pub mod Balance
pub mod Surplus
pub mod Sizes
pub mod Tenths
pub mod Faults
pub mod RowOrder
mod Examples

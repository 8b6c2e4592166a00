pub mod Names
pub mod Small
pub mod First
pub mod Table
pub mod Surplus
pub mod Sizes
pub mod Exact
pub mod Order

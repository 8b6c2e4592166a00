pub mod Group
pub mod Sums
pub mod IntSums
pub mod Multiples
pub mod Words
pub mod Bounds
pub mod First
pub mod Examples

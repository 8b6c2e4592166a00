pub mod Totals
pub mod CycleRows
pub mod Rest
pub mod Digits

pub mod Naming
pub mod Slots
pub mod Faults
pub mod Reconciling

pub mod Order
pub mod Chains
pub mod SeparateLinks
pub mod Trails
pub mod Raise
pub mod Roots
pub mod Operands

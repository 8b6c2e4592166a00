pub mod Value
pub mod Links
pub mod LinkWalks
pub mod LabelPotentials
pub mod Table
pub mod PotentialTests
pub mod Tenths

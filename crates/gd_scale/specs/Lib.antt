pub mod Sum
pub mod Scale
pub mod Laws
pub mod Words
pub mod Sizes

pub mod Amiss
pub mod WayBack
pub mod Reach
pub mod Linking
pub mod Sides
pub mod ReachedCut

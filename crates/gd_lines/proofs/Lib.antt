pub mod Same
pub mod NextNomination
pub mod Sums
pub mod Lockstep
pub mod NewLines
pub mod After
pub mod Accept
pub mod Entering

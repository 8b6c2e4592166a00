pub mod Settling
pub mod Gains
pub mod Residual
pub mod ClosedWalks
pub mod Stillness

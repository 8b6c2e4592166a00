pub mod Names
pub mod LineConfirmations
pub mod Kept
pub mod Asking

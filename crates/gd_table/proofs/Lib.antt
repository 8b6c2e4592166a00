pub mod Places
pub mod Indexed

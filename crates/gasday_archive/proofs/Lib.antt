mod Auditing
mod Keeping
mod Publications
mod Running
pub mod Telling

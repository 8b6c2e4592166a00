pub mod Walks
pub mod Queries
pub mod Misfits
pub mod Examples

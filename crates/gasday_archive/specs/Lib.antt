pub mod Archives
pub mod Keeping
pub mod Runs
pub mod Orders

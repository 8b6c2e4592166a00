pub mod Audited
pub mod Checked
pub mod Files
pub mod Orders

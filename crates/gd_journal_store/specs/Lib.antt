pub mod Table
pub mod Pieces
pub mod Rows
pub mod Seen
pub mod Calls

pub mod Commands
pub mod Entering
pub mod Forms
pub mod Plain
pub mod Numbers
pub mod Rows
pub mod Telling

pub mod CallRows
pub mod Course

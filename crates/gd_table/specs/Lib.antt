pub mod Table
pub mod Inside

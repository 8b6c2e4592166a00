pub mod Arcs
pub mod Flow
pub mod Potential
pub mod Entries
pub mod Beginning
pub mod Inside
pub mod Links
pub mod Steps

pub mod Calendars
pub mod Days
pub mod Lines
pub mod Replies
pub mod Rows

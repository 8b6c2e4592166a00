pub mod Places
pub mod Calendars
pub mod Examples

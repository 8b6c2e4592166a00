pub mod Mark
pub mod Calendar
